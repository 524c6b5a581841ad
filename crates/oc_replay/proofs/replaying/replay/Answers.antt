use Rattle.std.proofs.Common.{◌≡◌, ◌∙◌, ℕ, Err, inr, refl, sym, ap, subst}
use Rattle.oc_schedule.specs.declared.fault.What.{What}
use Rattle.oc_base.specs.declared.why.Why.{Why}
use Rattle.oc_replay.specs.Ends.{IfLimit, IfText, OnDone, OnMemory, OnRefusal, OnSink, OnSource, end_of_report}
use Rattle.oc_replay.specs.declared.end.ReplayEnd.{ReplayEnd}
use Rattle.oc_replay.specs.declared.fault.ReportFault.{ReportFault}
use Rattle.oc_replay.specs.declared.fault.ReportFault.TheVariants.{Sink, Memory}
use Rattle.oc_replay.proofs.Opened.{as_large}
use Rattle.oc_replay.proofs.replaying.replay.Goals as goal

-- a report that failed is no end but at the sink, or for lack of memory

on_done : (P : Type 0) (fault : ReportFault) (end : ReplayEnd) → end ≡ end_of_report fault → OnDone end P
on_done P Sink end is = subst (λ e. OnDone e P) (sym is) tt
on_done P Memory end is = subst (λ e. OnDone e P) (sym is) tt

if_text : (P : ℕ → Why → Type 0) (fault : ReportFault) (end : ReplayEnd) → end ≡ end_of_report fault → IfText end P
if_text P Sink end is = subst (λ e. IfText e P) (sym is) tt
if_text P Memory end is = subst (λ e. IfText e P) (sym is) tt

if_limit : (P : What → Type 0) (fault : ReportFault) (end : ReplayEnd) → end ≡ end_of_report fault → IfLimit end P
if_limit P Sink end is = subst (λ e. IfLimit e P) (sym is) tt
if_limit P Memory end is = subst (λ e. IfLimit e P) (sym is) tt

on_source : (P : Type 0) (fault : ReportFault) (end : ReplayEnd) → end ≡ end_of_report fault → OnSource end P
on_source P Sink end is = subst (λ e. OnSource e P) (sym is) tt
on_source P Memory end is = subst (λ e. OnSource e P) (sym is) tt

on_refusal : (P : Type 0) (fault : ReportFault) (end : ReplayEnd) → end ≡ end_of_report fault → OnRefusal end P
on_refusal P Sink end is = subst (λ e. OnRefusal e P) (sym is) tt
on_refusal P Memory end is = subst (λ e. OnRefusal e P) (sym is) tt

on_sink : {P : Type 0} (fault : ReportFault) (end : ReplayEnd) → end ≡ end_of_report fault → (fault ≡ Sink → P) → OnSink end P
on_sink {P} Sink end is so = subst (λ e. OnSink e P) (sym is) (so refl)
on_sink {P} Memory end is so = subst (λ e. OnSink e P) (sym is) tt

on_memory : {P : Type 0} (fault : ReportFault) (end : ReplayEnd) → end ≡ end_of_report fault → (fault ≡ Memory → P) → OnMemory end P
on_memory {P} Sink end is so = subst (λ e. OnMemory e P) (sym is) tt
on_memory {P} Memory end is so = subst (λ e. OnMemory e P) (sym is) (so refl)

pub returns-clause-done : goal.returns-clause-done
returns-clause-done g c = on_done _ c.in-Err-play.fault c.from.result c.from.ensures

pub returns-clause-text : goal.returns-clause-text
returns-clause-text g c = if_text _ c.in-Err-play.fault c.from.result c.from.ensures

pub returns-clause-limit : goal.returns-clause-limit
returns-clause-limit g c = if_limit _ c.in-Err-play.fault c.from.result c.from.ensures

pub returns-clause-source : goal.returns-clause-source
returns-clause-source g c = on_source _ c.in-Err-play.fault c.from.result c.from.ensures

pub returns-clause-refused : goal.returns-clause-refused
returns-clause-refused g c = on_refusal _ c.in-Err-play.fault c.from.result c.from.ensures

-- the sink had taken a prefix, and the stage is on the way
pub returns-clause-sink : goal.returns-clause-sink
returns-clause-sink g c =
    on_sink c.in-Err-play.fault c.from.result c.from.ensures
    (λ is. let failed = c.in-Err-play.is ∙ ap (λ (fault : ReportFault). Err fault) is in (_, c.in-Ok.ensures.input, c.play.ensures.failed failed, c.play.ensures.stopped failed, c.play.ensures.cause failed))

-- the state where memory ran out
pub returns-clause-memory : goal.returns-clause-memory
returns-clause-memory g c =
    on_memory c.in-Err-play.fault c.from.result c.from.ensures
    (λ is. inr (_, c.in-Ok.ensures.input, c.play.ensures.memory (c.in-Err-play.is ∙ ap (λ (fault : ReportFault). Err fault) is)))

-- the schedule that was read may be played, at any scale
pub play-requires : goal.play-requires
play-requires g c = as_large c.args.scale _ c.in-Ok.ensures.lawful
