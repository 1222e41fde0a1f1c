-- A path as code keeps it.
pub mod Path
