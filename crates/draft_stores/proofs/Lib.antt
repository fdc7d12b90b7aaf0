mod OperationLaws
mod StoreLaws
