pub mod TriangleTests
