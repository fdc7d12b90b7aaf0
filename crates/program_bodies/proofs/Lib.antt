mod MethodSteps
mod NumberSteps
