mod BodySteps
mod NoCases
pub use Rattle.java_laying.proofs.BodyLaws
