pub mod Store
pub mod Draft
pub mod Lines
