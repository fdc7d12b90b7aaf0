pub mod ShortLaws
pub mod StopLaws
