pub mod GlobalLaws
pub mod LeastLaws
pub mod RaisedLaws
pub mod ReasonLaws
