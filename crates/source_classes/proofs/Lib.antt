pub mod ClassLemmas
pub mod MemberLemmas
pub mod NameLemmas
pub mod ParameterLemmas
