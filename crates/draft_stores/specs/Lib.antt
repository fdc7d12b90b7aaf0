pub mod OwningStores
