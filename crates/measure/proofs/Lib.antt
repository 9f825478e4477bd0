pub mod NoMeasure
