pub mod FiguresLaws
pub mod InputLaws
pub mod PageLaws
pub mod CellLaws
pub mod Cases
