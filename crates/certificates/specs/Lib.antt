pub mod Certified
pub use Rattle.flow_certs.specs.Causes
pub use Rattle.flow_certs.specs.Certificates
