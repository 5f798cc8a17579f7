pub mod Draws
pub mod Commands
pub mod Said
pub mod Rules
pub mod Generated
pub mod Rows
