pub mod SpreadNet
