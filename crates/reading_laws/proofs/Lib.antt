pub mod OneRefusal
pub mod OneCut
pub mod OneSettingsReading
mod Cells
mod Tables
mod Outcomes
mod Moves
mod Equal
mod Suffixes
mod Sources
mod Plans
mod Begins
mod ExpressionLaws
mod TokenActs
mod ExpressionActs
mod AnnotationActs
mod StatementActs
mod DeclarationActs
mod ActionActs
mod Search
mod TokenReading
pub mod Files
mod Classes
mod Listed
mod Parsed
pub mod OneTree
pub mod InTurn
pub mod SameFiles
pub mod OneFront
pub mod OneFileReading
