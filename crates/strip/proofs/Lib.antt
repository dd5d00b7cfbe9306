-- rows and runs of calls
pub mod FillSteps
pub mod RunSteps
-- the return trip and the curve
pub mod Told
pub mod Results
pub mod Queries
pub mod Toes
pub mod Curves
pub mod Hypots
pub mod Readings
pub mod Panels
pub mod Pages
pub mod Backs
pub mod Trips
pub mod RowTrips
pub mod Homes
