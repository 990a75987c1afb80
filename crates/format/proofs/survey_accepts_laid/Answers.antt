use Rattle.format.proofs.Reading.{survey_accepts_laid}
use Rattle.format.proofs.survey_accepts_laid.Goals as goal

pub returns : goal.returns
returns c = survey_accepts_laid
