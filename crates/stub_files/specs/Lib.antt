pub mod CoreStub
pub mod StubFiles
