pub mod Query
pub mod Rule
pub mod Model
pub mod Kept
pub mod Triangles
pub mod Margins
pub mod Memos
pub mod Srgbs
