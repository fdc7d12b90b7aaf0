mod MoveLaws
mod OneStep
