pub mod CloseRoundLaws
pub mod PieceRoundLaws
pub mod RoundLaws
pub mod WeighRoundLaws
