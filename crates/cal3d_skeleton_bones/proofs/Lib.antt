pub mod BoneLaws
pub mod LinkLaws
pub mod WalkLaws
pub mod LayLaws
pub mod BoneWalkLaws
