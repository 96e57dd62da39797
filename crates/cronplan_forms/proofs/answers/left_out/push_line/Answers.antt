use Rattle.std.proofs.Common.{◌≡◌, ◌∙◌, ◌++◌, ℕ, List, ap, codes, string_bytes}
use Rattle.std.proofs.lemmas.List.{append_assoc}
use Rattle.std.proofs.lemmas.Result.{on_ok_weaker}
use Rattle.cronplan_forms.specs.Answers.{job_name, left_out_line, starts_line}
use Rattle.cronplan_forms.proofs.answers.left_out.push_line.Goals as goal

pub returns : goal.returns
unfolding left_out_line
returns c =
    let begin : List ℕ = string_bytes c.args.text.now in
    let head : List ℕ = codes "left out, since it starts too often (--most-a-day): " in
    let name : List ℕ = job_name c.args.jobs.now c.args.job.job in
    let starts : List ℕ = starts_line c.args.job.starts in
    let with_name : string_bytes c.push_job_name.new.text ≡ (begin ++ head) ++ name = c.in_ok-push_job_name.ensures ∙ ap (λ (t : List ℕ). t ++ name) c.in_ok-push_str.ensures.bytes in
    on_ok_weaker c.push_starts.result
    (λ e. e ∙ ap (λ (t : List ℕ). t ++ starts) with_name ∙ append_assoc (begin ++ head) name starts ∙ append_assoc begin head (name ++ starts)) c.push_starts.ensures
