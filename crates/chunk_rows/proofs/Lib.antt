pub mod Bags
pub mod RowOrders
pub mod InTurn
