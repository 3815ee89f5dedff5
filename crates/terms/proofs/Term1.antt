-- Term 1, proved.
use Rattle.terms.specs.Term1.{Term1}
use Rattle.terms.proofs.Answers.{call_by_refusal, start_by_refusal}
use Rattle.terms.proofs.Callers.{code_term1}

pub term1 : Term1
term1 = record { start = start_by_refusal; call = call_by_refusal; code = code_term1 }
