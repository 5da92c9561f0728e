pub mod Loading
pub mod Opening
pub mod Missing
