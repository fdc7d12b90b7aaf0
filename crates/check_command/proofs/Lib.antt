mod FaultLaws
mod StopLaws
