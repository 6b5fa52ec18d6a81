pub mod CueLine
