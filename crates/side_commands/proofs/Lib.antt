pub mod MigrationLemmas
