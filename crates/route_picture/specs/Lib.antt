pub mod Blame
pub mod Cut
pub mod Files
pub mod Page
pub mod Printed
pub mod Said
pub mod Stop
pub mod Words
