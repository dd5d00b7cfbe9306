pub mod Maps
pub mod CuspMeans
pub mod IntersectionMeans
pub mod ChromaMeans
