pub mod Locks
pub mod DualFixing
pub mod DominatedColumn
pub mod UnboundedColumn
pub mod Forms
