pub mod BuiltLemmas
pub mod KnownLemmas
pub mod MemberLemmas
pub mod NameFacts
pub mod NoCases
pub mod NumberLemmas
pub mod ObjectLemmas
pub mod Owners
pub mod PassLemmas
pub mod Rising
pub mod StringFacts
pub mod TableFacts
pub mod ValidFields
pub mod ValidMethods
pub mod ValidTable
pub mod WrittenFacts
pub use Rattle.class_headers.proofs.KnownLemmas as ClassHeadersKnownLemmas
