mod BoundLaws
mod Known
mod WorkedExamples
