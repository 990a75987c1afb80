use Rattle.format.proofs.Reading.{survey_laid}
use Rattle.format.proofs.survey.Goals as goal

pub returns : goal.returns
returns c =
    record { answer = c.survey.ensures.answer; laid = survey_laid c.args.bytes.now c.survey.result c.survey.ensures.answer }
