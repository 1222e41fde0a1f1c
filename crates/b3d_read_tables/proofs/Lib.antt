-- The ten tables one by one.
pub mod EachTableLaws
