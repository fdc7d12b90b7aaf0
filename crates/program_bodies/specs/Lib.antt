pub mod ProgramBodies
