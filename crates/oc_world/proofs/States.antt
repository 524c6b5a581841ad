-- A process by its state.
use Rattle.std.proofs.Common.{◌≡◌, ℕ, true, false, refl, sym, ap, subst, ◌∙◌}
use Rattle.oc_keep.specs.Files.{Disks, Survives, disks_in}
use Rattle.oc_keep.specs.KeptView.{KeptView, disks_of, header_of, node_of}
use Rattle.oc_model.specs.Node.{Header, Node, restarted}
use Rattle.oc_model.specs.World.{Process}
use Rattle.oc_io.specs.MemDiskView.{MemDiskView, view_of}
use Rattle.oc_keep.specs.ReadyView.{CanCommit, ReadyView}
use Rattle.oc_keep.specs.declared.files.Files.{Files}
use Rattle.oc_world.specs.declared.process_state.ProcessState.{ProcessState}
use Rattle.oc_world.specs.declared.process_state.ProcessState.TheVariants.{Running, Stopped}
use Rattle.oc_world.specs.ProcessView.{CanCommitTo}
use Rattle.oc_world.specs.ProcessState.{IsLeft, IsRunning, IsStopped, IsStateOf, is_running, left_in, process_of}

-- the node of a process is one of its header
pub state_header : (h : Header) (x : ℕ) (s : ProcessState MemDiskView) → IsStateOf h x s → header_of (process_of h x s).process.node.control ≡ h
state_header h x (Running k) is = is.header
state_header h x (Stopped f) is = refl

-- with its id
pub state_me : (h : Header) (x : ℕ) (s : ProcessState MemDiskView) → IsStateOf h x s → (process_of h x s).process.node.control.me ≡ x
state_me h x (Running k) is = is.me
state_me h x (Stopped f) is = refl

-- the node recovered from the files of a node that is down is newly started
pub down_anew : (h : Header) (x : ℕ) (s : ProcessState MemDiskView) → (process_of h x s).process.up ≡ false → restarted (process_of h x s).process.node ≡ (process_of h x s).process.node
down_anew h x (Running k) off = absurd cc
down_anew h x (Stopped f) off = refl

-- a node of the process that runs
pub runs_as : (h : Header) (x : ℕ) (s : ProcessState MemDiskView) (k : KeptView MemDiskView) → IsStateOf h x s → IsRunning view_of (header_of (process_of h x s).process.node.control) (process_of h x s).process.node.control.me k → IsRunning view_of h x k
runs_as h x s k is runs =
    subst (λ (y : ℕ). IsRunning view_of h y k) (state_me h x s is) (subst (λ (j : Header). IsRunning view_of j (process_of h x s).process.node.control.me k) (state_header h x s is) runs)

-- the files left of a node that ran
pub left_as : (h : Header) (x : ℕ) (k : KeptView MemDiskView) (n : Node) (f : Files MemDiskView) → IsRunning view_of h x k → IsLeft k.node.control n f → IsStopped h x f
left_as h x k n f was left = subst (λ (y : ℕ). IsStopped h y f) was.me (subst (λ (j : Header). IsStopped j k.node.control.me f) was.header left.stopped)

-- the node recovered from the files left
pub left_node : (h : Header) (x : ℕ) (k : KeptView MemDiskView) (n : Node) (f : Files MemDiskView) → IsRunning view_of h x k → IsLeft k.node.control n f → left_in h x f ≡ restarted n
left_node h x k n f was left =
    ap (λ (j : Header). left_in j x f) (sym was.header) ∙ (ap (λ (y : ℕ). left_in (header_of k.node.control) y f) (sym was.me) ∙ left.node)

-- a process with a node that runs
pub running_is : (h : Header) (x : ℕ) (s : ProcessState MemDiskView) (k : KeptView MemDiskView) → s ≡ Running k → IsStateOf h x s → IsRunning view_of h x k
running_is h x s k is is_state = subst (IsStateOf h x) is is_state

-- a process with the files of a node that is down
pub stopped_is : (h : Header) (x : ℕ) (s : ProcessState MemDiskView) (f : Files MemDiskView) → s ≡ Stopped f → IsStateOf h x s → IsStopped h x f
stopped_is h x s f is is_state = subst (IsStateOf h x) is is_state

-- a process that is up runs
pub is_up : (h : Header) (x : ℕ) (s : ProcessState MemDiskView) → (process_of h x s).process.up ≡ true → is_running s ≡ true
is_up h x (Running k) on = refl
is_up h x (Stopped f) on = absurd cc

-- a process to which an input can be committed runs, on files to which it can be
pub can_commit : (h : Header) (x : ℕ) (s : ProcessState MemDiskView) (k : KeptView MemDiskView) (r : ReadyView) → s ≡ Running k → CanCommitTo (process_of h x s).kept r → CanCommit view_of k r
can_commit h x s k r is can = subst (λ (t : ProcessState MemDiskView). CanCommitTo (process_of h x t).kept r) is can

-- Every crash of the disks of a process leaves the durable part of its node.
abbrev pub ProcessSurvives : Disks MemDiskView → Process → Type 0
ProcessSurvives d p = Survives view_of (header_of p.node.control) p.node.control.me d p.node

-- the durable part of a running node survives
pub running_survives : (h : Header) (x : ℕ) (s : ProcessState MemDiskView) (k : KeptView MemDiskView) (d : Disks MemDiskView) → IsStateOf h x s → s ≡ Running k → d ≡ disks_of k → ProcessSurvives d (process_of h x s).process
running_survives h x s k d is_state is same =
    let runs : IsRunning view_of h x k = subst (IsStateOf h x) is is_state in
    subst (λ (t : ProcessState MemDiskView). ProcessSurvives d (process_of h x t).process) (sym is)
    (subst (λ (e : Disks MemDiskView). Survives view_of (header_of k.node.control) k.node.control.me e (node_of k)) (sym same) runs.is_open.survives)

-- the durable part of a node that is down survives
pub stopped_survives : (h : Header) (x : ℕ) (s : ProcessState MemDiskView) (f : Files MemDiskView) → IsStateOf h x s → s ≡ Stopped f → ProcessSurvives (disks_in f) (process_of h x s).process
stopped_survives h x s f is_state is =
    let stopped : IsStopped h x f = subst (IsStateOf h x) is is_state in
    subst (λ (t : ProcessState MemDiskView). ProcessSurvives (disks_in f) (process_of h x t).process) (sym is) stopped.survives
