pub mod Numbers
pub mod Passes
pub mod SuperTables
pub mod Table
pub use Rattle.class_order.specs.Cases
pub use Rattle.class_declarations.specs.Members as ClassDeclarationsMembers
pub use Rattle.class_headers.specs.Cases as ClassHeadersCases
pub use Rattle.class_order.specs.Declarations as ClassOrderDeclarations
pub use Rattle.class_checks.specs.DoubleMembers
pub use Rattle.class_headers.specs.Headers
pub use Rattle.table_members.specs.Methods
pub use Rattle.super_obligations.specs.SuperCases
pub use Rattle.super_obligations.specs.SuperPass
pub use Rattle.class_headers.specs.SuperTypes
