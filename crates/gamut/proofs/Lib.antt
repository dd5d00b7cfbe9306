pub mod ToeMeans
pub mod CurveMeans
pub mod OklabMeans
