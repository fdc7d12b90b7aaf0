mod EndLaws
mod IndexLaws
mod ListLaws
mod StoredLaws
