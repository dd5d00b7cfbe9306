pub mod Carries
pub mod AnswerMeans
pub mod Chromatics
pub mod OkhslMeans
pub mod ConversionMeans
pub mod OkhsvMeans
