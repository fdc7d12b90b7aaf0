mod Environments
mod LeastSteps
mod ListSteps
mod MemberSteps
