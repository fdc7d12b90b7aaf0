pub mod NoteStages
pub mod StepLaws
