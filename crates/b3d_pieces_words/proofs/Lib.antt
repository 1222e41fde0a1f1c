pub mod CallLaws
pub mod JudgedLaws
