pub mod Table
pub mod Card
