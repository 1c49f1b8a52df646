pub mod Dealt
pub mod Lending
pub mod Rule
pub mod Seats
pub mod Shares
