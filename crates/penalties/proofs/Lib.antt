pub mod StepLemmas
pub mod SurveyLemmas
pub mod Words
