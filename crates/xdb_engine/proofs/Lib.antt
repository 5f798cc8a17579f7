mod AskLaws
mod FileSteps
mod SetLaws
mod StateLaws
mod StepLaws
