mod Annotations
mod Parameters
