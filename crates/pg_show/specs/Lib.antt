pub mod Program
pub mod Show
