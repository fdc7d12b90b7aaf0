pub use Rattle.class_order.proofs.CaseLemmas
