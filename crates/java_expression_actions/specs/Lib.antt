pub mod TokenActions
pub mod ExpressionActions
pub mod AnnotationActions
