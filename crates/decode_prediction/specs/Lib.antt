pub mod Fit
pub mod Prediction
