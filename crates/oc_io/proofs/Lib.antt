pub mod Counts
pub mod Fronts
pub mod DiskCalls
pub mod Blots
pub mod DiskMoments
pub mod LogBlots
