mod ChainLaws
mod FrameLaws
