-- `answer` meets its contract: the answer to each request, and its bytes counted. Assumes nothing.
use Rattle.answers.proofs.AnswerLaws.{by-request, script-request, ask-request}
use Rattle.answers.proofs.answer.Goals as goal

pub returns-in-Read : goal.returns-in-Read
returns-in-Read c = let w = by-request _ c.in-Read.is c.read_answer.ensures in record { wrote = w.0; prefix_len = w.1 }

pub returns-in-Script : goal.returns-in-Script
returns-in-Script c = let w = by-request _ c.in-Script.is (script-request _ c.script_answer.ensures) in record { wrote = w.0; prefix_len = w.1 }

pub returns-in-Ask : goal.returns-in-Ask
returns-in-Ask c = let w = by-request _ c.in-Ask.is (ask-request _ c.script_answer-in-Ask.ensures) in record { wrote = w.0; prefix_len = w.1 }

pub returns-in-Check : goal.returns-in-Check
returns-in-Check c = let w = by-request _ c.in-Check.is c.check_answer.ensures in record { wrote = w.0; prefix_len = w.1 }

pub returns-in-Tally : goal.returns-in-Tally
returns-in-Tally c = let w = by-request _ c.in-Tally.is c.tally_answer.ensures in record { wrote = w.0; prefix_len = w.1 }
