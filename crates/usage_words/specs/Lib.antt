pub mod Command
pub mod Item
pub mod Turn
pub mod Usage
pub mod Word
pub mod Wrong
